pub mod Tracks
mod Extent
pub mod Gathering
pub mod Keys
pub mod Order
pub mod Apart
pub mod Listing
pub mod Cases
