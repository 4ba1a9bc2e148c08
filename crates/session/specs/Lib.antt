pub mod Talks
pub mod Sites
