pub mod Clerk
pub mod Reads
