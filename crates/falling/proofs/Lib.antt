pub mod Moving
pub mod Stretching
pub mod Overtaking
pub mod Crowning
pub mod Descending
pub mod Walking
