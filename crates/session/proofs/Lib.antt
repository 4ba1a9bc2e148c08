mod Parts
pub mod Talks
mod Sites
