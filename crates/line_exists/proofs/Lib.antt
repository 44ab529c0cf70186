pub mod Low
mod Bridge
mod Between
pub mod Theorem
pub mod Cases
pub mod Witness
