pub mod BeginLemmas
pub mod BodyLemmas
pub mod FlightLemmas
pub mod FleetLemmas
pub mod MeaningLemmas
pub mod OnceLemmas
pub mod PrintedLemmas
