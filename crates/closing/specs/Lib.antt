pub mod Closing
pub mod Private
