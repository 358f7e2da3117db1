pub mod Grown
pub mod Tries
pub mod Growing
pub mod Build
