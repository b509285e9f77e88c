pub mod Begun
mod Cuts
mod Fronts
