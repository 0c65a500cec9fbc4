pub mod Lists
pub mod Reasons
pub mod Pairs
pub mod Mixed
pub mod AddUp
pub mod Students
