pub mod Whole
pub mod Sourced
