pub mod TopLemmas
