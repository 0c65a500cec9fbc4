pub mod Refusing
pub mod Texts
