pub mod Refusals
pub mod WithoutMedia
pub mod OverMedia
pub mod Asking
pub mod Stepping
pub mod Counted
pub mod Events
pub mod Resting
