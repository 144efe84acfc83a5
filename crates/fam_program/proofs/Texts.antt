-- What is put, piece by piece.
pub mod Pieces
pub mod Names
pub mod NumberLines
