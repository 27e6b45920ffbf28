pub mod Trailing
pub mod AtIndices
pub mod Frozen
pub mod SameObjections
pub mod Crossing
