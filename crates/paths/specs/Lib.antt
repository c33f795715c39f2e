pub mod Ring
pub mod Comparator
pub mod Measuring
pub mod MethodB
pub mod Alternating
pub mod Dc
pub mod Frame
pub mod Whole
