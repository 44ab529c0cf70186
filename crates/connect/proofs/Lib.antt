pub mod Keeping
pub mod Unused
mod Turning
