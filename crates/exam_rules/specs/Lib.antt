pub mod Breach
pub mod Places
pub mod Groups
pub mod Loads
pub mod Marks
pub mod Lines
pub mod Breaches
pub mod HardRules
