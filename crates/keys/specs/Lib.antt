pub mod Labels
pub mod Distances
pub mod Encodings
pub mod Derived
pub mod Sequences
pub mod KeyBits
pub mod Encoded
pub mod Listed
