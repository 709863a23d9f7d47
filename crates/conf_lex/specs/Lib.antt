pub mod Class
pub mod Tokens
pub mod Machine
pub mod Answers
pub mod Lines
pub mod Spelling
