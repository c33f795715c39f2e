pub mod Readings
pub mod Bluetooth
pub mod Partial
