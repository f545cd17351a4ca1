pub mod Grown
pub mod Returns
