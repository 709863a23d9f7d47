pub mod Looking
pub mod Opening
pub mod Pieces
pub mod Ranges
pub mod Refusals
