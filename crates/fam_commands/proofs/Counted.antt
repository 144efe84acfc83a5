-- How many operations a command makes.
pub mod Ends
pub mod Files
