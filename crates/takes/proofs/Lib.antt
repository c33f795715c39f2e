pub mod Whole
pub mod Nearest
pub mod Stated
