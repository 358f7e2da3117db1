pub mod Status
pub mod PointBytes
pub mod Requests
pub mod Build
pub mod Images
pub mod Stls
pub mod Laws
pub mod Drawings
