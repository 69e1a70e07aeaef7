pub mod Tries
pub mod TryRead
