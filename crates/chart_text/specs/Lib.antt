pub mod LineNumbers
pub mod Flights
pub mod Blocks
pub mod Fleets
pub mod Charts
pub mod Refusals
pub mod Printed
pub mod Laws
