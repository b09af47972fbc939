pub mod Rules
pub mod Check
pub mod Least
pub mod FirstLeaf
pub mod InnerLeast
