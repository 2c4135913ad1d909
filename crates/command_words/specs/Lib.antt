pub mod Commands
pub mod Asked
pub mod Parsed
pub mod Plain
pub mod Vertical
