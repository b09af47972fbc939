pub mod FirstFault
pub mod Examples
