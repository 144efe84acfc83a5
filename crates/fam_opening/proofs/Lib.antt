pub mod Damaged
pub mod Surveys
pub mod SlotWords
pub mod FileBytes
pub mod Held
