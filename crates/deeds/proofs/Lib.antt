pub mod Receipting
