pub mod Reading
pub mod Stated
pub mod Counts
