pub mod Digits
pub mod Items
pub mod Pairs
pub mod Spelled
pub mod Only
pub mod Lengths
pub mod Stated
