pub mod Entries
pub mod Sold
pub mod History
pub mod Digits
pub mod Agrees
pub mod Reached
pub mod TakingBack
