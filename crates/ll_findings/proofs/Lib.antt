-- lists of which only changes to a base are kept
pub mod Rising
pub mod Overlaying
pub mod Covering
-- chunk after chunk
pub mod Chunking
pub mod Crossing
-- what a finding tells, and which records are marked
mod SamePaths
pub mod TakenRecords
pub mod FindingTells
pub mod NodesOfTree
pub mod Marking
