pub mod Constants
pub mod Bounds
pub mod Sites
pub mod FrameLaws
pub mod FoundPlaces
pub mod FoundFrames
