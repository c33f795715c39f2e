pub mod PowerVals
pub mod Methods
pub mod Floors
pub mod Load
pub mod Marks
pub mod Energy
pub mod Vals
pub mod Divided
