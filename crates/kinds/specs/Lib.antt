pub mod Fields
pub mod Plain
pub mod Operators
