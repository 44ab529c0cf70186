pub mod Moves
pub mod Separation
pub mod Promises
pub mod Cases
