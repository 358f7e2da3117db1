pub mod Lines
pub mod Printed
pub mod PrintedRun
pub mod Runs
pub mod LeftOut
pub mod RuledRun
