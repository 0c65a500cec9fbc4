pub mod SumLemmas
pub mod StudentLemmas
pub mod PairLemmas
pub mod MixedLemmas
