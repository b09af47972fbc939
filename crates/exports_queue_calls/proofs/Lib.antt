pub mod ServesPlain
