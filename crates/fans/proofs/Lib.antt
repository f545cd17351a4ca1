pub mod Hanging
pub mod Bucketing
pub mod Fanning
pub mod Nesting
pub mod Ranking
