pub mod Frame
pub mod Flags
