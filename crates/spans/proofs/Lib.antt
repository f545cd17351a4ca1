pub mod Spanning
pub mod Buckets
pub mod Lowering
pub mod Knowing
