pub mod Kept
pub mod Reduced
pub mod NextKept
pub mod Limits
pub mod Spread
pub mod NextKeptScan
pub mod RestrictLoop
pub mod SpreadOut
