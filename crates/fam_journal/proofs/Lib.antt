pub mod Faces
pub mod JournalLaws
pub mod Settled
pub mod Calls
pub mod Runs
pub mod Shapes
pub mod Growth
