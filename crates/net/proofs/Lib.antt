pub mod Leaves
pub mod Found
pub mod Branching
pub mod Cases
