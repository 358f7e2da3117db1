pub mod Table
pub mod Shapes
pub mod Angles
pub mod Queries
