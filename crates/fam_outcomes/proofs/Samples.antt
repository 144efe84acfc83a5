-- Samples, computed.
pub mod Vectors
pub mod Endings
pub mod Programs
