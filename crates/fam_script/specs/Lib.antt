pub mod Reports
pub mod Settled
pub mod StormLines
pub mod Spelled
