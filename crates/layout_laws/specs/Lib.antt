pub mod Laid
pub mod Counted
