pub mod Checks
pub mod Pairs
pub mod Lines
pub mod Sifting
pub mod Refusing
pub mod Naming
pub mod Telling
