pub mod NoPart
