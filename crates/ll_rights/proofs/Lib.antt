pub mod Bitwise
pub mod Tables
pub mod Sets
pub mod Supported
pub mod AbiRanges
