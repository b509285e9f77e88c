pub mod File
pub mod Fills
pub mod Held
pub mod Makings
pub mod Rows
