pub mod Turns
pub mod Shares
pub mod Steps
pub mod Views
pub mod Sums
