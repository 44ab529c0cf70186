pub mod Tests
pub mod Outputs
pub mod Booked
pub mod Exists
pub mod Call
