pub mod Boxes
pub mod Coins
pub mod Draws
pub mod Fair
pub mod Sboxes
