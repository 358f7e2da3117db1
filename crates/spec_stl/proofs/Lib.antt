pub mod Facets
pub mod Refused
pub mod Kept
pub mod Worked
