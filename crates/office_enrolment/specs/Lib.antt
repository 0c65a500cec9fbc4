pub mod AfterBatch
pub mod Keeping
pub mod Rows
