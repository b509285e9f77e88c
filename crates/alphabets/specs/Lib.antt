pub mod Alphabets
pub mod AlphabetLaws
pub mod RunNames
