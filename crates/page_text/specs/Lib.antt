pub mod Reading
pub mod Words
pub mod Law
pub mod LastYear
