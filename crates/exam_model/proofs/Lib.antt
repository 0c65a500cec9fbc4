pub mod ConflictLemmas
mod LinkLemmas
mod CountLemmas
mod EnrolLemmas
mod EnrolmentLemmas
pub mod PairLemmas
pub mod PlaceLemmas
mod RollLemmas
pub mod SameSet
pub mod DayLemmas
pub mod StudentLemmas
pub mod SumLemmas
