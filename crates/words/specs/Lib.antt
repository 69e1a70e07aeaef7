pub mod Words
pub mod Rows
pub mod Names
pub mod Fields
