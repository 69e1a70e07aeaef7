mod Fields
mod Flags
