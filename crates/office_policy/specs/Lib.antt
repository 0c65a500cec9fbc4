pub mod Numbers
pub mod Callers
pub mod CommandBodies
pub mod Commands
pub mod Policy
