pub mod Check
pub mod Refusing
pub mod Verdicts
pub mod Listing
pub mod Names
pub mod Why
pub mod Compare
pub mod Student
