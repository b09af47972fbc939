pub mod Tree
pub mod Address
pub mod Reader
pub mod Branch
pub mod InnerEnds
pub mod Debt
