pub mod Meshing
pub mod Once
pub mod Rooted
pub mod Sketching
pub mod Answering
pub mod Walked
