pub mod Splits
pub mod Median
pub mod Buckets
pub mod Area
