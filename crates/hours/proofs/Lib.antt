mod Exactly
pub mod Decided
