pub mod Digits
pub mod Spelling
