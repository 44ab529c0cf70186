pub mod Movement
pub mod Extent
pub mod Corridors
pub mod Tracks
pub mod Promises
pub mod Cases
pub mod Held
