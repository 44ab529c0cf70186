pub mod Sizes
pub mod Block
