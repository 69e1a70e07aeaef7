pub mod Money
pub mod Commands
