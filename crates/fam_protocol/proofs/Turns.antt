-- The turns of a task on a sound file system, by the phase in which it stands.
pub mod Head
pub mod Stores
pub mod Gate
pub mod Slots
pub mod Decide
pub mod Ask
pub mod FileLines
pub mod Survey
pub mod Turned
pub mod Tell
pub mod Moved
pub mod PartWords
