pub mod Advancing
mod Comparing
mod Fresh
mod Turned
mod Settling
pub mod Stepped
pub mod Buffered
pub mod Listed
pub mod Offering
pub mod Asking
pub mod Placed
pub mod Tabled
pub mod Closing
