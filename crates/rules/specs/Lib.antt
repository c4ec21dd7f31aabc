-- Document 01 as definitions, section by section. Below and Bytes are what they are made of; Facts is what contracts of the code ask, and no
-- part of document 01; Promises is what the commands promise.
pub mod Below
pub mod Bytes
pub mod Shape
pub mod Spare
pub mod Page
pub mod WellFormed
pub mod Content
pub mod Steps
pub mod Replies
pub mod Facts
pub mod Promises
pub mod Computing
