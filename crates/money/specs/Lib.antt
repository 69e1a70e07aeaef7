pub mod Money
pub mod Subtotals
