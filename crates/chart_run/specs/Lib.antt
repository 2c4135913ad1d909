pub mod Words
pub mod Statuses
pub mod Notes
pub mod Files
pub mod Pages
pub mod Causes
pub mod Settled
pub mod Endings
