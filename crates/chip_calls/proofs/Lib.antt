pub mod Refused
pub mod ChipServes
