pub mod With
pub mod Answer
pub mod Apply
pub mod Switches
pub mod Ranges
pub mod Starts
