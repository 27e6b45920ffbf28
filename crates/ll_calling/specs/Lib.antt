pub mod Groups
pub mod PolicyLines
pub mod Texts
pub mod Answers
