pub mod Plumbing
pub mod Lessening
pub mod Comparing
