pub mod Trial
pub mod Bound
pub mod Nearest
pub mod Stated
