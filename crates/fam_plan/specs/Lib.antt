pub mod State
pub mod Faults
pub mod Wishes
pub mod Needs
pub mod Pieces
pub mod Parts
pub mod Ledgers
pub mod Decisions
