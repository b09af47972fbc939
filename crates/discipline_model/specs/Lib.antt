pub mod Figure
pub mod Scheduler
