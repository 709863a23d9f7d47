pub mod Feeding
pub mod Grammar
pub mod Laws
pub mod Lines
pub mod Reading
pub mod Sound
pub mod Standings
