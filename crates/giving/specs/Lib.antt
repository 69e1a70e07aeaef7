pub mod Ending
pub mod Together
pub mod Private
