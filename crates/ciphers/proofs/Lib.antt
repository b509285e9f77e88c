pub mod Checked
pub mod Moves
pub mod Doubled
pub mod Opened
pub mod Keeping
