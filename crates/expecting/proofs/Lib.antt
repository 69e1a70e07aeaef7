pub mod Parts
pub mod Suiting
