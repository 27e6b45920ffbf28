pub mod Kept
pub mod Overlays
pub mod Findings
pub mod Alike
pub mod Chunks
pub mod TakenRecords
pub mod InTree
