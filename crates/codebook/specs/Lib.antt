pub mod Numbers
pub mod Books
pub mod Codebooks
pub mod BookLaws
pub mod Calls
pub mod Permuted
pub mod Counts
pub mod Numberings
