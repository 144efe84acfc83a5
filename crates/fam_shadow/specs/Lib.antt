pub mod Nodes
pub mod Shadows
pub mod Passes
pub mod Calls
pub mod MemoryShade
