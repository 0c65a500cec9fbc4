pub mod Replying
pub mod Serving
pub mod Transcripts
pub mod CandidateMessages
pub mod Isolation
pub mod Clients
pub mod Crashes
pub mod TwoOffices
