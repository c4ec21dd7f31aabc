pub mod Unique
pub mod Useless
