pub mod Sets
pub mod Placing
pub mod Local
pub mod Program
pub mod Cells
pub mod Nodes
pub mod Images
