pub mod Roots
pub mod Choices
pub mod Pages
pub mod Offers
mod Growth
pub mod Lines
pub mod Rows
pub mod Nets
pub mod Theorems
