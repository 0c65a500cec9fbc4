pub mod LineLemmas
pub mod ClientLemmas
