mod Made
mod Fronts
mod Cuts
mod Feeds
pub mod Blocks
mod Spoken
