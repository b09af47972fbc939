pub mod Carry
pub mod PushesLand
pub mod InnerWays
