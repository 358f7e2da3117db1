pub mod Matrices
pub mod Sums
pub mod Far
pub mod Fast
pub mod Calls
pub mod Stored
