pub mod Listening
pub mod Through
