-- Steps of hosts, from the beginning of a run on, and the laws that are taken out of them.
pub mod Begins
pub mod Resting
pub mod Bystanders
pub mod Events
pub mod Formats
pub mod Clears
pub mod Given
pub mod Gives
pub mod Acts
pub mod Inside
pub mod Steps
pub mod FindingLaws
pub mod SoundReads
