pub mod Stops
pub mod Opening
pub mod BeforeCompile
pub mod ServeCases
pub mod BatchLoop
pub mod RunLoop
pub mod Examples
pub mod Lengths
