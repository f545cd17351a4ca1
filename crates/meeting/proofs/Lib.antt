pub mod Keeping
pub mod Staying
pub mod Overlapping
