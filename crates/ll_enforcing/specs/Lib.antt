pub mod Calls
pub mod Answered
pub mod WorkedCalls
pub mod PlainRestricting
