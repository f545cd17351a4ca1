-- How low the returns of each line end, and those of its rivals.
pub mod Inside
