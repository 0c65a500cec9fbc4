pub mod Lines
pub mod Clients
