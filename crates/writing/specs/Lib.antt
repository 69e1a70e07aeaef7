pub mod Words
pub mod Content
