pub mod Filled
pub mod Lengths
