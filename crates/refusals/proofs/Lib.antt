pub mod Numbered
mod Asking
