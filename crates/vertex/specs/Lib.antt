pub mod Kinds
pub mod Vertices
pub mod Pages
