pub mod Points
pub mod Nets
pub mod Lent
pub mod Cases
