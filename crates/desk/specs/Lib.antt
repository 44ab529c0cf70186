pub mod Sizes
pub mod Desk
pub mod Calls
