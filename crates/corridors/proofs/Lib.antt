pub mod Rows
pub mod Filling
pub mod Covering
pub mod Taking
mod Folds
pub mod Laying
pub mod Crossing
pub mod Places
pub mod Index
pub mod Runs
pub mod Cases
