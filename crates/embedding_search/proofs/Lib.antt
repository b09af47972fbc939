pub mod FoundSimulated
