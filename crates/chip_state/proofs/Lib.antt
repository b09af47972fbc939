pub mod ChipServes
pub mod Satisfiable
