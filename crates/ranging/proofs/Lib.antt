pub mod Nearest
pub mod Stated
pub mod Turned
