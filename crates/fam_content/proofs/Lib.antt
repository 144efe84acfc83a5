pub mod Along
pub mod Callers
pub mod Cutting
pub mod LittleEndian
pub mod Lines
pub mod Rows
