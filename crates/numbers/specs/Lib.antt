pub mod Binary32
pub mod Convert
pub mod Root
pub mod Decimal
