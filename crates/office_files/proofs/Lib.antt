mod DigitLemmas
mod ExamLineLemmas
mod ExamLinePairs
mod ExamLineSteps
mod FieldLemmas
mod ItemLemmas
mod LaterLemmas
mod LineLemmas
mod OrderLaws
mod ReadOnLemmas
mod SectionLemmas
mod SliceLaws
mod SolutionLemmas
mod SplitLemmas
pub mod ReadingLaws
pub mod ItemLaws
pub mod SectionLaws
pub mod SolutionLaws
pub mod InstanceLaws
pub mod NameLaws
mod WeightLemmas
pub mod WeightLaws
pub mod ReaderLaws
pub mod LimitLaws
mod FaultLemmas
pub mod FirstFaultLaws
mod CanonicalLines
mod CanonicalSolution
mod CanonicalDigits
mod CanonicalSteps
mod CanonicalItems
mod CanonicalSections
pub mod CanonicalInstance
mod EightLanes
