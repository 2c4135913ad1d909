pub mod Sights
pub mod PieceVerdict
pub mod NearMask
pub mod Hold
pub mod Choices
