pub mod Comparisons
pub mod Findings
pub mod Texts
pub mod Answers
