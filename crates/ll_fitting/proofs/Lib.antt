pub mod Families
pub mod Left
pub mod RightByRight
pub mod FirstSeen
