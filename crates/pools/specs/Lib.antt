pub mod File
pub mod Pools
pub mod Rows
pub mod Shuffled
