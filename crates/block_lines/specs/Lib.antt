pub mod Messages
pub mod Requests
pub mod Answers
