pub mod Separated
pub mod Layout
pub mod Answer
pub mod Lent
