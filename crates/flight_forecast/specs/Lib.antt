pub mod Alerts
pub mod InOrder
pub mod Steps
pub mod Words
