pub mod Stl
pub mod Calls
