-- The search as a machine of steps, and what orient says of it.
pub mod Machine
pub mod Orient
pub mod Inside
