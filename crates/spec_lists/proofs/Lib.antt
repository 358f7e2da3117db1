pub mod Verdicts
pub mod Coordinates
pub mod Passed
pub mod Reading
pub mod Within
pub mod Worked
