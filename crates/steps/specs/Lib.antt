pub mod Runs
pub mod Doing
pub mod Answers
