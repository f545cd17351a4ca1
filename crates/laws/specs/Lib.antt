-- Words that the definitions of all crates are made of.
pub mod Tests
pub mod Counting
pub mod Lists
pub mod Dictionary
pub mod Checks
pub mod Running
pub mod Orbits
pub mod Sorting
pub mod Chains
