pub mod CommandLine
pub mod Faultless
