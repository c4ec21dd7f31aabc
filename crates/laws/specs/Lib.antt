pub mod Foreseen
