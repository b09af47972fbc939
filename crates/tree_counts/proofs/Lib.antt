pub mod AreSound
