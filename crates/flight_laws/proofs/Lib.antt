pub mod Usable
pub mod Legs
pub mod Cuts
pub mod OneList
pub mod Few
