pub mod Entries
pub mod Quads
pub mod Fields
pub mod Schedule
pub mod Bytes
pub mod Digits
pub mod Macs
