pub mod Steps
pub mod TableRules
pub mod Division
pub mod Quotients
pub mod WordBytes
pub mod Heads
pub mod SeenZeros
