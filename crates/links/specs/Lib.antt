-- What comes of taking links into the groups.
pub mod Inside
