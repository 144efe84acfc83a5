pub mod Lines
pub mod Turns
pub mod Damaged
pub mod Settled
pub mod Hosts
