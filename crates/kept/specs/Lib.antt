pub mod ByValue
