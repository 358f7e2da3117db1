pub mod Points
pub mod Boxes
pub mod Planes
pub mod Triangles
pub mod Plain
