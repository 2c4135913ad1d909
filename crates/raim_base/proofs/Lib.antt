pub mod Places
pub mod Calls
pub mod FeedLemmas
pub mod GrowthLemmas
