pub mod Booked
mod Outputs
pub mod Call
