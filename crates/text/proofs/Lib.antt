pub mod Splits
pub mod Digits
pub mod Numbers
pub mod InPlace
