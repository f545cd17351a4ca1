-- A network as text, and what read and write say.
pub mod Text
pub mod Calls
pub mod Inside
