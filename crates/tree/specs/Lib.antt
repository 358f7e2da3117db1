pub mod Values
pub mod Needs
