pub mod Error
pub mod Place
pub mod Reading
pub mod Verdict
