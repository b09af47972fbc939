pub mod FirstFault
pub mod Amounts
