pub mod Prolonged
pub mod Laws
