pub mod Placing
pub mod Taken
