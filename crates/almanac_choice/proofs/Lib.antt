pub mod Best
pub mod Parts
pub mod Times
