mod Tests
mod Places
pub mod Whole
