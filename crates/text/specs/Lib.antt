pub mod Text
pub mod Appending
