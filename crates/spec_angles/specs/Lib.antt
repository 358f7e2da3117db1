pub mod Root
pub mod Table
pub mod Angle
pub mod Winding
pub mod Windings
pub mod RootByBits
