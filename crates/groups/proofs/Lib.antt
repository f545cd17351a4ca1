-- The laws of choices and constraints, and what the functions' contracts mean (Answers). The rest serves the proofs of the functions.
pub mod Ranks
pub mod Ways
pub mod Grouped
pub mod Alike
pub mod Choosing
pub mod Answers
pub mod Filling
pub mod Pointers
pub mod Passing
pub mod Setting
pub mod Taking
