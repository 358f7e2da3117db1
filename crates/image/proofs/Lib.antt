pub mod Versions
pub mod Links
pub mod RoundTrip
pub mod Taken
pub mod Unique
pub mod Wrote
