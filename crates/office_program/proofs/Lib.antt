pub mod LoadFacts
pub mod NumberLemmas
mod ServeFacts
pub mod ServerFacts
mod ShelfFacts
pub mod WordFacts
mod SourceFacts
mod CompareSources
mod CheckAllFacts
mod DatabaseFacts
mod ForeignFacts
pub mod NoticeFacts
