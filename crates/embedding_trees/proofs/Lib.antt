pub mod TreesFault
pub mod BranchEnds
