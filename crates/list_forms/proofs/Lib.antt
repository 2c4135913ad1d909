pub mod Answers
pub mod Removals
pub mod Rests
pub mod Slopes
pub mod Lists
