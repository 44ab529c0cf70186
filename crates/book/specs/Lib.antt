pub mod Sizes
pub mod Book
pub mod Kinds
pub mod Entries
pub mod Renamed
pub mod Refusals
