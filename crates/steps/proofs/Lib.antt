pub mod Running
pub mod Replying
