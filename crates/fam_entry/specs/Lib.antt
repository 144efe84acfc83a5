pub mod Tests
pub mod Header
pub mod Short
