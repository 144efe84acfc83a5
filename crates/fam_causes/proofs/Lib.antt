pub mod Loops
pub mod Firsts
pub mod Joined
pub mod Finding
pub mod Heads
