pub mod Ending
pub mod Joining
