pub mod Rights
pub mod Slots
pub mod Plain
