mod Choosing
mod Flags
