pub mod Scene
pub mod Wrong
pub mod Caller
pub mod Bodies
