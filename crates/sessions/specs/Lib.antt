pub mod Blocks
pub mod Sessions
