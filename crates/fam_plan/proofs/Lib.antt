pub mod Histories
pub mod Decisions
pub mod Entries
pub mod FirstEntries
pub mod Prefixes
pub mod PieceLemmas
pub mod Lengths
