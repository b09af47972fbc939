pub mod PathFault
pub mod DescendLoop
pub mod Standing
pub mod WalkLoop
pub mod Carries
pub mod PushesLand
