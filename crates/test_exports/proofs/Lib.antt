pub mod Branches
pub mod First
