pub mod SimpleApps
pub mod Given
pub mod UuidWords
pub mod NamedRules
pub mod Makings
pub mod Singles
