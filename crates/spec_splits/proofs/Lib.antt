pub mod Turns
pub mod Table
pub mod Median
pub mod Buckets
pub mod Sweeps
pub mod Area
pub mod Inside
pub mod Worked
