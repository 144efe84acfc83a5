-- The history: what notes and answers change of it, what a task found at its mark, and what it named.
pub mod Keeps
pub mod Lists
pub mod Found
pub mod Settle
pub mod Resettle
pub mod Naming
pub mod FromMark
pub mod Marking
