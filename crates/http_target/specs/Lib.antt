pub mod Path
pub mod Target
