pub mod Pieces
pub mod PlaceLemmas
