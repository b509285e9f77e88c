pub mod Words
pub mod Readers
pub mod Hex
