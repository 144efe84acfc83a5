pub mod Replica
pub mod Replay
pub mod Sources
