-- What the two calls list.
pub mod Listing
