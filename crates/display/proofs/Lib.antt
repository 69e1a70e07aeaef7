pub mod Marks
pub mod Shown
pub mod Laws
pub mod Examples
