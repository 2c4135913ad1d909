pub mod Nodes
pub mod Turns
pub mod Sites
pub mod Biases
pub mod Usables
pub mod Parts
