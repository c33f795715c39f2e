pub mod With
pub mod Bench
pub mod Step
pub mod Frame
pub mod Whole
