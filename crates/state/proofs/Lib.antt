pub mod Bits
pub mod Stated
pub mod Marks
pub mod Ohms
