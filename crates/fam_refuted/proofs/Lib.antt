pub mod Runs
pub mod Fencing
pub mod Phases
pub mod Scenes
pub mod Appends
pub mod RefutedLaws
