pub mod Device
pub mod Answering
pub mod Hearing
pub mod Beginning
