pub mod Query
pub mod Search
pub mod Exists
pub mod Lent
