pub mod Rows
pub mod Cases
pub mod Rules
pub mod BlockWrites
