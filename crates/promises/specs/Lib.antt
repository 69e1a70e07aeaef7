pub mod AtDevice
pub mod AtTill
pub mod Demand1
pub mod Ends
pub mod Coded
pub mod Demand2
pub mod Guarding
pub mod Demand3
