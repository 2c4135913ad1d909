pub mod Probes
pub mod Turns
