pub mod Loops
pub mod Clock
pub mod NoDeparture
