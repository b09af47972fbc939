pub mod Sizes
pub mod Loadable
pub mod PutChips
pub mod Endings
pub mod TableOnce
pub mod Lengths
pub mod Unlimited
pub mod Examples
