-- The meshes of an order.
pub mod Meshes
pub mod Inside
