pub mod CutLemmas
pub mod Decide
pub mod FaultLemmas
pub mod JudgementLemmas
pub mod RunLemmas
