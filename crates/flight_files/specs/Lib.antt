pub mod Order
pub mod Paths
pub mod Files
pub mod Stops
pub mod Calls
pub mod Settled
