pub mod Units
pub mod Formats
pub mod Readout
