-- Scripts: their lines, their files, and what their runs put.
pub mod Puts
pub mod Lines
pub mod Files
pub mod Turned
pub mod FirstLines
pub mod LinesRun
pub mod StormReads
