pub mod Tables
pub mod Pieces
pub mod Runs
pub mod Stores
pub mod Each
