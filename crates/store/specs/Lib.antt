pub mod Store
pub mod Commands
