pub mod Encoded
pub mod Feeding
pub mod Grammar
pub mod Laws
pub mod Reading
pub mod Sound
pub mod States
