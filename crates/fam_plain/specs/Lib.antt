pub mod Joining
pub mod Survey
pub mod Told
