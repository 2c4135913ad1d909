pub mod NanuLemmas
pub mod DigitLemmas
pub mod CountLemmas
