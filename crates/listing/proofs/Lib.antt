mod Pieces
pub mod Writing
pub mod Room
pub mod Fits
