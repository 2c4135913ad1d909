pub mod Products
pub mod Angles
pub mod Motions
pub mod Elements
pub mod Positions
pub mod Exists
