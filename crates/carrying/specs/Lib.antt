pub mod Carrying
pub mod Work
