pub mod Makings
pub mod Causes
pub mod Shown
