pub mod Seeing
pub mod Numbered
