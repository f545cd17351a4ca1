-- The page that the listing program prints.
pub mod Page
pub mod Inside
