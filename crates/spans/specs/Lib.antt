-- The tables that the two walks go by.
pub mod Inside
