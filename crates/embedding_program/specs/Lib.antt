pub mod InnerSets
pub mod InnerPlacing
pub mod InnerTables
pub mod InnerMeaning
