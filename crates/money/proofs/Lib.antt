pub mod Sales
pub mod Adjusting
