pub mod FilesByName
pub mod Endings
pub mod OneReport
pub mod Totals
pub mod VersionByVersion
pub mod FoundByVersion
pub mod GoingOn
