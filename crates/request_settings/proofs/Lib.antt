mod LastTrue
mod Ruling
mod Adding
pub mod Valued
pub mod Lending
