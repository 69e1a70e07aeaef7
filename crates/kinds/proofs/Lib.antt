pub mod Forms
pub mod Openings
