pub mod Bools
pub mod Split
pub mod Numbers
pub mod Digits
pub mod Written
pub mod Clean
mod Cases
