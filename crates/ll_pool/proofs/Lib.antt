mod RuleSteps
mod Accounting
mod AllOnce
pub mod PuttingAnswers
pub mod Answering
pub mod Sharing
pub mod Crossing
