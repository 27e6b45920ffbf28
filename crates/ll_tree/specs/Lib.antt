pub mod Chains
pub mod Trees
pub mod TreeFacts
pub mod SmallPlaces
pub mod TreeReading
pub mod Kept
pub mod WorkedTree
