pub mod Twos
pub mod Bits
