pub mod History
pub mod Promises
pub mod Handed
pub mod Fifth
