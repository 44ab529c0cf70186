mod Moves
mod Axis
mod Closed
pub mod Promises
pub mod Cases
