pub mod Sorting
pub mod Walking
pub mod Grouping
