pub mod Scales
pub mod Readings
pub mod Parts
pub mod Take
