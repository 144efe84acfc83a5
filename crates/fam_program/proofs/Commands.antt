-- Commands of their own: their events, what they put, and what they leave.
pub mod NoFaultHidden
pub mod LastNotes
pub mod Events
pub mod MemoryLeft
pub mod ImageLeft
pub mod TopEnds
pub mod Shadows
pub mod OfLogplay
pub mod ShownTrees
pub mod Dups
