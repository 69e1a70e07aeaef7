pub mod Views
pub mod Reasons
pub mod Effects
pub mod Rules
pub mod Searches
