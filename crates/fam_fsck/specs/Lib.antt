pub mod Found
pub mod Merge
pub mod Scan
