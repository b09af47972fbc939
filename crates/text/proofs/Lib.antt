pub mod Written
pub mod Digits
pub mod Appending
pub mod Examples
