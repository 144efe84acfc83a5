pub mod Keywords
pub mod Lines
pub mod Scripts
pub mod Texts
pub mod Statuses
