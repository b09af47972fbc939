pub mod NumberKept
pub mod Searches
