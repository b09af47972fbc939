pub mod FirstList
pub mod Passes
pub mod MapFault
pub mod MeetsRules
pub mod Least
pub mod LoneLeaf
pub mod Search
