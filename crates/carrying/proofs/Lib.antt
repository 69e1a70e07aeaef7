pub mod Working
pub mod Eights
pub mod Texts
