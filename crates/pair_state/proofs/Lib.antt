pub mod OpensBoth
pub mod Truncated
pub mod BothFault
