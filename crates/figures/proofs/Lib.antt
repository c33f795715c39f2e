pub mod Remainder
pub mod Exactly
pub mod Within
pub mod Step
pub mod Interval
pub mod Nearest
pub mod Stated
