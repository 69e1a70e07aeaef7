pub mod Recording
pub mod Parts
