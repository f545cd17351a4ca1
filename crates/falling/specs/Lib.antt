-- The walk by falling ends.
pub mod Inside
pub mod Down
