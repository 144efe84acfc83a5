pub mod Stream
pub mod Difference
