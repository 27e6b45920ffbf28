pub mod Readers
pub mod Lines
pub mod Members
pub mod Values
pub mod Reading
pub mod LineByLine
pub mod Paths
