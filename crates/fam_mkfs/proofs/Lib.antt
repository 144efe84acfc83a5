pub mod WholeLines
pub mod SuperLines
pub mod SuperPuts
pub mod Ending
