pub mod Moves
pub mod Gained
