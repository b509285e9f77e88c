pub mod Keeps
pub mod Firsts
pub mod LayerLaws
pub mod FirstsLemmas
pub mod Handed
pub mod KeepsLemmas
pub mod Shortened
