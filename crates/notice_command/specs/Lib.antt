pub mod Statuses
pub mod FileWords
pub mod FileCauses
pub mod Accepted
pub mod Calls
pub mod RunFacts
pub mod Notes
