pub mod Ends
pub mod Lines
pub mod Wires
pub mod Lent
