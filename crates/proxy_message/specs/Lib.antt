pub mod Asking
pub mod Bounds
pub mod Feeding
pub mod Progress
pub mod Reading
pub mod Responses
pub mod Stages
