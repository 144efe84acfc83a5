mod Exits
mod Heads
pub mod Found
mod Lines
pub mod Replicas
mod Slots
pub mod Sources
