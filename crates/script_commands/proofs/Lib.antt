pub mod FirstByte
pub mod ReadAt
pub mod ReadsFrom
pub mod Batches
