pub mod Starred
pub mod Readings
