pub mod Words
pub mod Tables
pub mod Lines
pub mod Explained
pub mod Buffers
pub mod Told
