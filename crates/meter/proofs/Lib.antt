pub mod Orders
pub mod Entered
pub mod Full
pub mod Table
pub mod Stated
