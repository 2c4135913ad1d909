pub mod Runs
pub mod Means
pub mod Accepting
pub mod OneReading
pub mod RangeLemmas
pub mod ReaderLemmas
