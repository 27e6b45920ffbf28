pub mod Digits
pub mod Behind
pub mod Copies
pub mod Entries
pub mod Crossing
pub mod Leaves
