pub mod AsBefore
pub mod Widths
pub mod Worked
