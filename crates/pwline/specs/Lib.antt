pub mod Text
pub mod Obeyed
pub mod Divided
pub mod Whole
