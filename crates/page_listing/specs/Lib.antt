pub mod Printed
pub mod Fits
pub mod Claims
pub mod Cases
