pub mod Roots
pub mod Choices
pub mod Laid
pub mod Good
pub mod Claims
