pub mod Counts
pub mod Unique
