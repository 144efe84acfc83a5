-- What comes of each operation of a task, and that the task stands where the table says.
pub mod Append
pub mod Behind
pub mod Decide
pub mod FileLines
pub mod Head
pub mod Slots
pub mod Outcomes
pub mod Standing
pub mod TieStays
pub mod Ties
pub mod UsedTold
