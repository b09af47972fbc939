pub mod Entries
pub mod PlainBack
