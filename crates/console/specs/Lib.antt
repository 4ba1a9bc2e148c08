pub mod Replies
pub mod Laws
pub mod Example
