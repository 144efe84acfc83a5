pub mod Found
pub mod Faults
pub mod Rendering
pub mod Running
pub mod LastEvents
pub mod Mailing
pub mod Leaving
