pub mod Pair
pub mod SamePairs
pub mod Fraction
pub mod Floor
pub mod Inverse
