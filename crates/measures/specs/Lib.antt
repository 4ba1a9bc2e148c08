pub mod Capped
pub mod Additive
pub mod Longest
pub mod Caps
