pub mod Powers
pub mod LeavesNeeded
pub mod LeastDepth
pub mod Answers
