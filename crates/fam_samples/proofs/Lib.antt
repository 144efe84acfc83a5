mod Decided
mod Longs
mod Dropped
pub mod Shaped
pub mod Chained
pub mod Stepping
pub mod Making
pub mod Cutting
