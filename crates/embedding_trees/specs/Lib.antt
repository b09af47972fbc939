pub mod Trees
pub mod InnerFilling
