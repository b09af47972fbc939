pub mod Regular
pub mod Depth
pub mod InnerNeed
