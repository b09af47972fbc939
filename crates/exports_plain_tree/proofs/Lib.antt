pub mod SchedulesPlain
