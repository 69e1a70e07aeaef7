pub mod Ending
pub mod Silence
