pub mod Runs
pub mod Texts
pub mod Scripts
pub mod Commands
