pub mod Draws
pub mod Generated
pub mod Totals
pub mod Laws
