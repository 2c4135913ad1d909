pub mod Margins
pub mod Slopes
pub mod Lists
