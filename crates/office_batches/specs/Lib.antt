pub mod Records
pub mod BatchText
pub mod FirstFault
