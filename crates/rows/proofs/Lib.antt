pub mod Rows
pub mod Areas
pub mod Parts
pub mod Chunks
