pub mod Passed
pub mod Request
pub mod Pairs
pub mod Params
pub mod Head
pub mod Attempts
