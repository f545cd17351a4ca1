-- What a finished search leaves: a tree with its back lines, the returns of a line, and its low.
pub mod Tree
pub mod Returns
pub mod Words
pub mod Grown
pub mod Searched
