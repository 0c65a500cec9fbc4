pub mod DigitLemmas
pub mod NumberLemmas
pub mod NameLemmas
