pub mod Apart
pub mod Zeros
pub mod Nearest
pub mod Stated
