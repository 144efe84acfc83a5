pub mod Endings
pub mod MailEndings
pub mod Uuids
