pub mod Refusing
pub mod Putting
pub mod Stepping
pub mod Showing
pub mod Printing
pub mod Once
