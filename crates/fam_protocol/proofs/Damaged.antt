-- A damaged image: nobody writes, and each task comes to the image's own fault.
pub mod Moves
pub mod Words
pub mod Ends
pub mod DamagedTurns
pub mod Steps
pub mod Finds
