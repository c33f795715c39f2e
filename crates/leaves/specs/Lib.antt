pub mod Host
pub mod Numbered
