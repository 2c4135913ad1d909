pub mod FormatLemmas
pub mod TotalLemmas
