pub mod Truths
pub mod Kept
pub mod Documented
