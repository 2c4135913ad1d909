pub mod Lists
pub mod Effects
pub mod Maps
pub mod Numbers
pub mod Books
pub mod Greatest
