pub mod Reading
pub mod Decimals
pub mod Bounds
pub mod Examples
