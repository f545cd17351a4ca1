-- The two sides, and the kinds of constraint, as numbers.
pub mod Sides
