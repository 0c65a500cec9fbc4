pub mod Objects
pub mod Views
pub mod Members
pub mod DayTexts
pub mod CandidateViews
pub mod Refusals
pub mod ChangeTexts
pub mod Replies
