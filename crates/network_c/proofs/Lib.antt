pub mod Made
mod Runs
