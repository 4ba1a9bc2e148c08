pub mod Studies
pub mod Changes
pub mod Logs
pub mod Questions
pub mod Laws
