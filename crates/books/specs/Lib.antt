pub mod Groups
pub mod Books
pub mod Rates
pub mod Registers
pub mod Sound
