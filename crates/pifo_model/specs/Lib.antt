pub mod Queue
pub mod Tree
pub mod Addressed
pub mod Assembled
pub mod InnerNumbered
pub mod Way
pub mod Machine
pub mod Runs
