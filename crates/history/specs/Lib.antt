-- Histories of a card, and what is proved of them. Read Demands first.
pub mod History
pub mod Demands
