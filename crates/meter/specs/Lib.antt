pub mod Making
pub mod Frame
pub mod Divided
pub mod Calls
pub mod Table
