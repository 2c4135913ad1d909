pub mod Rests
pub mod Listed
pub mod PairLemmas
