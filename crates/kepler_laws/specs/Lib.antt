pub mod Anomalies
pub mod EccentricSine
