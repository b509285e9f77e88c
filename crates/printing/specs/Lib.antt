pub mod Rows
pub mod Replies
pub mod Laws
