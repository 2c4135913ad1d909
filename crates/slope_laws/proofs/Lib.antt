pub mod Removal
pub mod Kept
pub mod Steep
pub mod Told
pub mod ShiftSlopes
pub mod Fews
