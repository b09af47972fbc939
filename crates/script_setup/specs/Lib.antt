pub mod Gathering
pub mod InnerTurns
