pub mod Embedding
pub mod Carrying
pub mod InnerCarryNodes
pub mod Mirror
pub mod Simulation
pub mod Reduced
