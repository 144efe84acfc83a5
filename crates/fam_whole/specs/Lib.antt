pub mod Whole
pub mod Alone
pub mod Called
