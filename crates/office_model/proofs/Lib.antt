pub mod CommandLemmas
pub mod StepLemmas
pub mod RecordLemmas
pub mod OfficeLemmas
pub mod ShownLemmas
pub mod QuietLemmas
pub mod SameLemmas
pub mod FollowLemmas
pub mod ChangeLemmas
pub mod AnswerLemmas
mod ViewLemmas
pub mod PlaceEditLemmas
