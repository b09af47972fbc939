pub mod Chip
pub mod InnerPaired
