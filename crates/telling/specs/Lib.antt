pub mod Telling
pub mod Private
