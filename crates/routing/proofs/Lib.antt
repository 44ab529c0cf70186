pub mod Pairs
pub mod Limits
pub mod Starred
pub mod Tries
pub mod Joints
pub mod Alike
