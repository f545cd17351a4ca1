pub mod Closing
pub mod Tying
pub mod Outcomes
