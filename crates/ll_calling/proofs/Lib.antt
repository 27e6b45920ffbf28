pub mod Taken
pub mod Names
