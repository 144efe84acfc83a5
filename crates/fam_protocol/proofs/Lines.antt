-- What every move of a cache, and every store of the master, keeps of memory and caches, line by line.
pub mod Moves
pub mod Clean
pub mod Floors
pub mod Free
pub mod Keeping
pub mod Transferring
pub mod Fencing
pub mod Apart
pub mod Stored
pub mod Publish
