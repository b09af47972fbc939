pub mod InStep
pub mod Alike
