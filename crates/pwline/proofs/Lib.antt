pub mod Feeding
pub mod Stated
