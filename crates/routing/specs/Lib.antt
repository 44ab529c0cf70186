pub mod Roots
pub mod Branches
pub mod Cases
pub mod Lent
