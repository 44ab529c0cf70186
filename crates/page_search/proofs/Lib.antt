pub mod Explicits
pub mod Ready
pub mod Theorem
pub mod Cases
mod Building
