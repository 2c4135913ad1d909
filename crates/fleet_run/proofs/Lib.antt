pub mod LineLemmas
pub mod WriteLemmas
pub mod StatusLemmas
pub mod BodyLemmas
pub mod TopLemmas
