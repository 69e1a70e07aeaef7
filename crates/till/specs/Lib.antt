pub mod Words
pub mod Turns
pub mod Fields
pub mod Private
