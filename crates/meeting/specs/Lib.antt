-- Lines of a fork that meet.
pub mod Inside
pub mod Facing
