pub mod Schedules
pub mod Below
pub mod Own
pub mod Satisfiable
pub mod Arrays
