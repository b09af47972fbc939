pub mod PlanTo
pub mod PlannedPush
pub mod Finishes
