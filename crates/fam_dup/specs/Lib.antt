pub mod Copies
pub mod Lines
pub mod Runs
pub mod Findings
pub mod Ends
pub mod Passes
