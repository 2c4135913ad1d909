pub mod Legs
