pub mod Demo
pub mod Summary
pub mod Laws
