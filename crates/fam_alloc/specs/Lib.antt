pub mod Taken
pub mod FreeRuns
pub mod Runs
pub mod Next
pub mod Full
pub mod TakeFaults
