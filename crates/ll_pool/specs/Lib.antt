pub mod Accounts
pub mod Rule
pub mod Gathered
