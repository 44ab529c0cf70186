pub mod ByKind
pub mod Fields
pub mod Keeps
pub mod Entries
pub mod Builds
pub mod Renamed
pub mod Refusals
