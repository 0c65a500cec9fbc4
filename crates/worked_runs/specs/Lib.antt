pub mod SmallSession
