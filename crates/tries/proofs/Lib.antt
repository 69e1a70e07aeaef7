pub mod Lists
pub mod Bodies
pub mod Hearing
pub mod Trying
