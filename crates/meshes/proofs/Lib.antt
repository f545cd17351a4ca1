pub mod Directions
pub mod Turning
pub mod Mesh
pub mod Following
pub mod Sizing
pub mod Links
