pub mod Connected
pub mod Nets
pub mod Separated
pub mod Claims
pub mod Cases
