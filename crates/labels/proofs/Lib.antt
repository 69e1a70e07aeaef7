pub mod Tabs
pub mod Examples
