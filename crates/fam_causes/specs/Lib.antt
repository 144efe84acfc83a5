pub mod Asking
pub mod Asked
pub mod Bounds
pub mod Differing
pub mod Causes
pub mod CauseTexts
