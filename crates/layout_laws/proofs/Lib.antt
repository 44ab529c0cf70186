mod Rows
mod Nets
pub mod Theorem
pub mod Counts
