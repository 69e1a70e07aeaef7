pub mod Keeping
pub mod Stages
