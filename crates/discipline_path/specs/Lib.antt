pub mod Plans
pub mod InnerShares
