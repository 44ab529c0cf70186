pub mod Room
pub mod Laid
pub mod Read
pub mod Decides
pub mod LastYear
pub mod Cases
