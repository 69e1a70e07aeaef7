pub mod Locking
pub mod Changing
pub mod Names
