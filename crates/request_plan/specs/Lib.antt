pub mod Form
pub mod Lent
pub mod Kept
pub mod Planned
pub mod Finding
