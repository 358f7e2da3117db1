pub mod RoundTrip
pub mod Unique
