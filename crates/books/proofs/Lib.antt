pub mod Eight
pub mod Sounding
