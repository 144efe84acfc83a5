pub mod Files
pub mod Sourcing
