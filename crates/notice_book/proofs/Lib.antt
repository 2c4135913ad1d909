pub mod KeptLemmas
pub mod OutageLemmas
pub mod LiveLemmas
pub mod CauseLemmas
pub mod OneAnswer
pub mod AskedLemmas
pub mod NextLemmas
