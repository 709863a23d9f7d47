pub mod Rules
pub mod Rewriting
pub mod Found
pub mod Passing
