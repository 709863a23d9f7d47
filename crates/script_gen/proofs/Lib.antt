pub mod Ranges
pub mod Spelled
pub mod Sums
pub mod Arriving
