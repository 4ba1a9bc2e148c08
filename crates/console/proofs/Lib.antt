pub mod Steps
pub mod Longest
pub mod Four
