pub mod Image
pub mod Stored
pub mod Reading
pub mod Writing
