pub mod Commands
pub mod Notes
