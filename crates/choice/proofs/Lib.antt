pub mod Proper
pub mod Faultless
pub mod Answering
pub mod Stepping
pub mod RingLength
