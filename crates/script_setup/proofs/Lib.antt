pub mod KeptBytes
pub mod GatherLoop
pub mod WithLimit
pub mod Endings
