pub mod Copying
pub mod Planning
