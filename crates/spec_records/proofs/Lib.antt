pub mod Little
pub mod Entries
pub mod Records
pub mod Layouts
pub mod Worked
pub mod Longer
