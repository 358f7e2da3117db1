pub mod Tables
pub mod Each
