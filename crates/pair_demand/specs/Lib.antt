pub mod Demand
pub mod Starred
