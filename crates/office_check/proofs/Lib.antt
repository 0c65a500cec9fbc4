pub mod CheckFacts
mod CompareFacts
mod NameFacts
mod WhyFacts
mod JsonFacts
mod StudentFacts
