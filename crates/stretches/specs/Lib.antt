pub mod Stretches
pub mod Private
