pub mod Behind
pub mod Hosts
pub mod Lines
pub mod Named
pub mod Resolved
pub mod Rising
