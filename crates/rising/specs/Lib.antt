-- The walk by rising ends.
pub mod Inside
