pub mod Rows
pub mod Shapes
pub mod Lines
pub mod Back
pub mod Wide
mod Cases
