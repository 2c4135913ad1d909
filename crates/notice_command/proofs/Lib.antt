pub mod StopLemmas
pub mod RunLemmas
pub mod CallLemmas
