pub mod Under
pub mod Readies
pub mod Exports
pub mod Books
