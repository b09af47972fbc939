pub mod Reading
pub mod Batches
pub mod InnerBatches
pub mod InnerOperands
