-- What a network is, and the checks that every call makes of one.
pub mod Marks
pub mod Network
pub mod Numbers
pub mod Inside
