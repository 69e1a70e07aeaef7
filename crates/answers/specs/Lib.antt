pub mod Contents
pub mod Put
pub mod Status
