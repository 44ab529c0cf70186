pub mod Blocks
pub mod Lists
pub mod Fits
pub mod Taken
