-- Widths has the statements. Before is the reader as it was before request 2.5, and Reached says what a script reaches.
pub mod Before
pub mod Reached
pub mod Widths
pub mod Worked
