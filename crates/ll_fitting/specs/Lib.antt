pub mod Told
pub mod Written
pub mod Fitting
pub mod Misfits
pub mod Taken
pub mod WorkedPolicies
