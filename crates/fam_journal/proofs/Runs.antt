-- Whole runs: their journals are legal, their answers are of the rules, and they come to an end.
pub mod CutReads
pub mod Staying
pub mod Following
pub mod LeftAlone
pub mod Completing
pub mod Ending
pub mod Halting
pub mod Unique
pub mod Left
pub mod Ruled
pub mod Listings
