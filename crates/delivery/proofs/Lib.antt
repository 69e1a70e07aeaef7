pub mod Sessions
pub mod Delivered
pub mod AtMostOnce
pub mod PartOf
pub mod Ended
pub mod Examples
