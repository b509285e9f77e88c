pub mod DeepPile
pub mod Made
