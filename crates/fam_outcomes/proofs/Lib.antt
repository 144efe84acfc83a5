pub mod Names
pub mod Causes
pub mod Faultless
pub mod Samples
