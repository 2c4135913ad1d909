pub mod FileLemmas
pub mod AlmanacLemmas
pub mod Steps
pub mod Clashes
pub mod OneReading
pub mod Settling
