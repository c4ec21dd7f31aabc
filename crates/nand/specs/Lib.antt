pub mod Chip
pub mod Entries
