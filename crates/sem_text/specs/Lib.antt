pub mod Lines
pub mod Sem
pub mod SemLaws
