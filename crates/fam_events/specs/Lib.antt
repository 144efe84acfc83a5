pub mod WorldChange
pub mod Calls
pub mod Happens
pub mod Begins
pub mod Steps
pub mod Rested
pub mod Untouched
pub mod Last
