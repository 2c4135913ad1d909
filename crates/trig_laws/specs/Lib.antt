pub mod Quarter
pub mod SinCos
pub mod Chains
