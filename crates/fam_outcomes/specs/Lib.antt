pub mod Texts
pub mod Statuses
pub mod Runs
pub mod Programs
