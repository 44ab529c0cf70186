pub mod Found
pub mod Touching
mod Others
pub mod Branches
pub mod Connect
pub mod Nets
pub mod Separate
pub mod Ranges
pub mod Theorems
pub mod Cases
