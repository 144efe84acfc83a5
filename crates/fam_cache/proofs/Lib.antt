pub mod InOrder
pub mod BlockLemmas
pub mod CountLemmas
pub mod AskedBlocks
pub mod AskedLines
pub mod Fenced
pub mod AskedRange
pub mod MemoryLemmas
pub mod SpotLemmas
pub mod StoreLemmas
pub mod Performed
pub mod Runs
pub mod SentRunLemmas
pub mod Shedding
pub mod BroughtRunLemmas
pub mod SetRuns
mod Shifting
pub mod CleanRuns
