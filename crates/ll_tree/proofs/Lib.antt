pub mod Positions
pub mod Keeping
pub mod TreeLines
pub mod Walk
