-- Small networks, and what the definitions say of them.
pub mod Tests
pub mod Turning
pub mod Trials
pub mod Table
pub mod Answers
