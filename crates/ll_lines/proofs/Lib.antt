pub mod MemoryLemmas
pub mod LinesLemmas
pub mod Values
pub mod ReadingLemmas
pub mod PathLaws
pub mod CutLemmas
pub mod NumberLemmas
pub mod BlockLemmas
