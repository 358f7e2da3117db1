pub mod Slices
pub mod Unique
