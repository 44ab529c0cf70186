pub mod Page
pub mod Lent
pub mod Claims
pub mod Cases
