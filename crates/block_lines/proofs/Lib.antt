pub mod Chains
pub mod Tags
pub mod Replies
pub mod Forms
