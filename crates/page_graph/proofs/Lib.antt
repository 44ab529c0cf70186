pub mod Parts
pub mod Laying
pub mod Answering
pub mod Explicits
pub mod Theorem
pub mod Range
pub mod Cases
