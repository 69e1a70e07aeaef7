pub mod Suits
pub mod Building
