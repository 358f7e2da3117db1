pub mod Sorting
pub mod Stored
