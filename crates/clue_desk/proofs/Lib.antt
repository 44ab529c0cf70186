pub mod Rest
pub mod Demand
mod Called
pub mod Renamed
