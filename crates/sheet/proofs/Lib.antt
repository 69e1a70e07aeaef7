pub mod Newest
pub mod Noting
