pub mod Flat
pub mod Listed
pub mod Ok
pub mod Asked
