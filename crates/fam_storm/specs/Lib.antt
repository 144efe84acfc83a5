pub mod Draws
pub mod Storm
pub mod Events
