pub mod Laws
pub mod Cutting
pub mod Fours
