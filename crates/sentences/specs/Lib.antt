pub mod Put
pub mod Figures
pub mod Filled
