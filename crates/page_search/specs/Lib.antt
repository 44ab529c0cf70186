pub mod Page
pub mod Exists
pub mod Cases
