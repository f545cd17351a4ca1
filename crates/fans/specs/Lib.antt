-- The fans, and lists of lines as chains.
pub mod Fan
pub mod Nesting
pub mod Chains
pub mod Fanning
