pub mod StateFirst
