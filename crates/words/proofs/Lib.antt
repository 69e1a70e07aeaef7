pub mod Table
pub mod Short
