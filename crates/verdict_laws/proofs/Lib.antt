pub mod Factors
pub mod Seen
pub mod Shown
pub mod Pieces
pub mod Existence
pub mod Straddling
pub mod NoMask
pub mod Masks
