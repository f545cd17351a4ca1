pub mod Packing
pub mod Unpacking
pub mod Once
