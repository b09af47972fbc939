pub mod OwnServes
