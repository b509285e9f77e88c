pub mod CodeLists
pub mod Walks
pub mod WalkLaws
pub mod Calls
pub mod Walked
pub mod Cycles
pub mod Listed
