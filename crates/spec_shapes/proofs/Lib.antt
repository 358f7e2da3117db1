pub mod OnAxes
pub mod Bounds
pub mod Held
pub mod Plain
pub mod Worked
pub mod Within
pub mod Feet
pub mod Parts
