pub mod Listing
pub mod Lent
pub mod Room
