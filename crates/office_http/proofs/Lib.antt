mod AnswerLemmas
mod DoneLemmas
mod UnavailableLemmas
mod CandidateLemmas
mod ServingLemmas
mod IsolationLemmas
mod TwoOfficesLemmas
pub mod ClientLemmas
pub mod CrashLemmas
