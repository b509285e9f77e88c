pub mod LineReplies
pub mod Answers
pub mod Blocks
pub mod Spoken
