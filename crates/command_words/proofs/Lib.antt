pub mod FourValues
pub mod NumberReads
pub mod PlainWords
pub mod Matched
