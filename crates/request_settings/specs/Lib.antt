pub mod Attributes
pub mod Values
pub mod Lists
pub mod Counted
