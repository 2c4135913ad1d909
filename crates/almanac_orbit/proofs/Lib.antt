pub mod Sizes
pub mod Rounded
pub mod Decimals
pub mod Motions
pub mod KeptElements
pub mod Canonicals
