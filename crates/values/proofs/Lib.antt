pub mod Nearest
pub mod Cases
pub mod Stated
