pub mod Stores
pub mod Settled
pub mod Passes
