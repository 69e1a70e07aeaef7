pub mod Bytes
pub mod Frame
pub mod Places
pub mod Replies
