pub mod Separating
pub mod Blank
pub mod Nets
pub mod Bounds
pub mod Laying
pub mod Ground
