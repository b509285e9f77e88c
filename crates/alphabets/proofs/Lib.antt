pub mod Tables
pub mod Symbols
pub mod RunNames
