pub mod Room
pub mod Working
pub mod Beginning
pub mod Turning
pub mod Parts
pub mod Taking
pub mod Fitting
