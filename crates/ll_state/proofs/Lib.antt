pub mod SameLayers
pub mod Judging
