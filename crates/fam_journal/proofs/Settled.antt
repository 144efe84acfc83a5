-- What notes settle, and what turns of tasks may say of it.
pub mod BadStates
pub mod OverMemory
pub mod Settles
pub mod ReplyCases
pub mod Journals
pub mod LongPaths
pub mod SoundTurns
pub mod DamagedTurns
pub mod TaskTurns
pub mod Owners
pub mod Prefixes
