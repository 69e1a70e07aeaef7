pub mod Hearing
pub mod Turning
mod Judging
pub mod Outer
