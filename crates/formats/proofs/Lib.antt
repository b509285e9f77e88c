pub mod Loops
pub mod Columns
pub mod Readings
pub mod Texts
pub mod Limits
