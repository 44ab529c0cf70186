pub mod Words
pub mod Decode
pub mod Valid
pub mod Whole
pub mod Changes
pub mod Longer
