pub mod Held
pub mod Bytes
pub mod Settled
pub mod Logs
pub mod Told
pub mod Fits
pub mod Checking
pub mod Reported
