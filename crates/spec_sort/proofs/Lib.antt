pub mod Merges
pub mod Permutes
pub mod Stable
