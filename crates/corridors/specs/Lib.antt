pub mod Sizes
pub mod Grid
pub mod Runs
pub mod Merge
pub mod Rules
pub mod Answer
pub mod Lent
pub mod Cases
