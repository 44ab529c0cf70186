pub mod Seeking
pub mod Counts
pub mod Paths
pub mod Pushes
pub mod Offers
pub mod Words
pub mod Keeping
