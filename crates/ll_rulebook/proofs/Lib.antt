pub mod Frozen
pub mod Settling
pub mod Calls
pub mod Course
