pub mod Reading
pub mod Fields
pub mod Private
