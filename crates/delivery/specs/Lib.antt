pub mod Delivery
pub mod AtMostOnce
