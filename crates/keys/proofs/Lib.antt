pub mod BlockBits
pub mod Derives
pub mod Encodes
pub mod Pieces
pub mod Ranges
pub mod Roots
pub mod Streams
