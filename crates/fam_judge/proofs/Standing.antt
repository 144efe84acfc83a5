-- Which note may stand next: the table over the note alone is the form of the tables.
pub mod Faces
pub mod Sizes
pub mod Sound
pub mod Refusals
pub mod Formed
pub mod Fresh
pub mod Asking
pub mod Making
pub mod Refused
pub mod Stands
pub mod Distinct
pub mod Alike
pub mod Listings
pub mod Journals
