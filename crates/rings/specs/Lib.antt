-- What a ring is, and how one is read off the tables of groups.
pub mod Ring
pub mod Rings
pub mod Flooding
