pub mod WhyCases
pub mod Branches
pub mod KeptAbove
pub mod Nowhere
pub mod Lacks
pub mod Examples
