pub mod Clashes
pub mod Settling
pub mod RunLemmas
pub mod NoteLemmas
pub mod FileLemmas
pub mod PredictLemmas
