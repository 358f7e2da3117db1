pub mod Links
pub mod Reached
pub mod Slots
pub mod Unique
