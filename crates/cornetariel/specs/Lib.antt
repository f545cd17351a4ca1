-- What the calls say to C.
pub mod Face
