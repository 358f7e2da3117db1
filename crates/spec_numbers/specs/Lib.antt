pub mod Values
pub mod Hold
pub mod Axes
pub mod Plain
pub mod Same
