-- The rows of the table of operations.
pub mod Append
pub mod FileLines
pub mod Head
pub mod Slots
pub mod At
pub mod Numbered
