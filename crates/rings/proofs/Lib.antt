-- What the ring shows (Showing), and the laws of rings. The rest serves the proofs of the functions.
pub mod Rings
pub mod Circles
pub mod Halves
pub mod Flooding
pub mod Climbing
pub mod Showing
pub mod Finding
pub mod Reading
