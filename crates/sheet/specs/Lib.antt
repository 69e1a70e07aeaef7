pub mod Sheet
pub mod Notes
pub mod Searches
