pub mod Counted
pub mod Passes
pub mod Chains
pub mod RoleOf
pub mod Addresses
pub mod RoleExactly
pub mod Examples
