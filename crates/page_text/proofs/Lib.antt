pub mod First
mod Steps
pub mod Back
pub mod Turns
pub mod Limits
pub mod LastYear
pub mod Decides
pub mod Told
mod Cases
