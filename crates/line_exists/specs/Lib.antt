pub mod Exists
pub mod Cases
