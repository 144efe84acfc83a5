pub mod Fresh
pub mod Words
pub mod Calls
pub mod Mails
