pub mod Answers
pub mod Little
pub mod Unique
