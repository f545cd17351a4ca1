pub mod Passing
pub mod Sinking
pub mod Settling
pub mod Rising
