pub mod Numbers
pub mod Backwards
pub mod PrintedRun
