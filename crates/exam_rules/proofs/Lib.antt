pub mod OrderLemmas
pub mod MemberLemmas
pub mod EnumerationLemmas
pub mod FindingLemmas
pub mod PlaceLemmas
pub mod SharingLemmas
pub mod GroupLemmas
pub mod LoadLemmas
pub mod BreachLemmas
pub mod NamingLemmas
pub mod MarkLemmas
mod LeastLemmas
mod CommonLemmas
