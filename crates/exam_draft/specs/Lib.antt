pub mod Edits
pub mod Judged
pub mod Drafts
