pub mod Words
pub mod Commands
pub mod Openings
pub mod Laws
