pub mod Coordinates
pub mod Unique
