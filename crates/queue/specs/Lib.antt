pub mod Queue
pub mod Index
pub mod Columns
