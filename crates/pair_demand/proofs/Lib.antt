pub mod Openings
pub mod Demand
pub mod Starred
