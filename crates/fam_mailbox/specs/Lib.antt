pub mod Lookups
pub mod Scripts
pub mod Puts
pub mod Runs
pub mod Mails
