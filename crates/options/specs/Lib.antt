pub mod Options
pub mod Ends
