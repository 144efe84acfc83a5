pub mod MediaLemmas
mod RunLemmas
pub mod ShelfLemmas
