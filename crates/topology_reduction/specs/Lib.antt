pub mod Kept
pub mod Reduced
pub mod InnerNodes
