pub mod Begins
pub mod Fills
pub mod Judged
pub mod Known
pub mod Verdicts
pub mod Blank
pub mod Agreeing
