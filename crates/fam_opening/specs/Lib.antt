pub mod Opening
pub mod Files
pub mod Opened
pub mod Found
