pub mod Lists
pub mod Standing
pub mod Places
pub mod Asked
pub mod Documented
