pub mod Folds
pub mod Texts
pub mod Writing
pub mod Answering
