pub mod Shown
pub mod Piled
pub mod Returned
