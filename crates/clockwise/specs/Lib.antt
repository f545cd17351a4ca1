-- The clockwise order that a choice of sides gives.
pub mod Order
pub mod Walks
pub mod Laying
pub mod Ordering
