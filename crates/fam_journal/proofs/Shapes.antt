-- Which notes fit each other, whatever memory holds.
pub mod WithoutMedia
pub mod ShapeLaws
pub mod Operations
pub mod Pairs
pub mod Rows
pub mod Views
pub mod Running
pub mod EventRows
pub mod Tasks
