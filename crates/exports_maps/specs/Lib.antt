pub mod Carry
pub mod LeastDepth
pub mod Search
