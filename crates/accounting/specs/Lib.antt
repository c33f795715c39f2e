pub mod Account
pub mod Divided
