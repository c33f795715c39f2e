pub mod Load
pub mod Smoothing
pub mod Acc
pub mod Exact
pub mod Tally
pub mod Full
