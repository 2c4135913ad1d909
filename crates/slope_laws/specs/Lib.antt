pub mod Rows
pub mod Slopes
pub mod Subsets
pub mod ShiftSlopes
pub mod Hold
