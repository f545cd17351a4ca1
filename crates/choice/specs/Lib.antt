-- What first choice and next choice say.
pub mod Choice
pub mod Calls
pub mod Inside
