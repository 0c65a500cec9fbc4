pub mod Answers
pub mod Performing
