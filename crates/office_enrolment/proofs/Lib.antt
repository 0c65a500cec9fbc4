pub mod PairRowLemmas
pub mod KeptLemmas
pub mod LineLemmas
pub mod IdleLemmas
pub mod RowLemmas
pub mod TextLemmas
pub mod OfficeLemmas
pub mod OthersLemmas
