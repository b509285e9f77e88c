pub mod Piles
pub mod WorkedExamples
