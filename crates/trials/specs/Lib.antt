pub mod Tries
pub mod Changes
