pub mod Shown
pub mod Stepped
pub mod Ring
