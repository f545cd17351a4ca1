-- What the call draw says.
pub mod Draw
pub mod Drawing
pub mod Settling
pub mod Walked
