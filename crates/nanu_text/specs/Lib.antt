pub mod Values
pub mod Nanus
pub mod Stages
pub mod Drafts
pub mod Answers
