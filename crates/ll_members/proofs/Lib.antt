pub mod WalkLemmas
pub mod RightsLemmas
pub mod NameLemmas
pub mod FirstLemmas
pub mod PassedLemmas
pub mod SlotLemmas
pub mod ShownLemmas
pub mod PlainLemmas
