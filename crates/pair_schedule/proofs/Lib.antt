pub mod RankAlike
pub mod SchedulersAlike
