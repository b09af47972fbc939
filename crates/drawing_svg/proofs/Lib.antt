pub mod Kept
pub mod Sheet
pub mod Lengths
