pub mod Steps
pub mod Running
pub mod Passing
pub mod Walking
pub mod RoundTrip
pub mod BuiltOnly
pub mod History
pub mod Holding
