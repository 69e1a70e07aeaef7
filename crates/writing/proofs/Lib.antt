pub mod Cuts
pub mod Saying
