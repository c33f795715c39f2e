pub mod Apply
pub mod Change
pub mod Autorange
pub mod Cycle
pub mod Bounds
