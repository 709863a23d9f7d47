pub mod FieldLines
pub mod Phrases
pub mod Reading
pub mod Replies
pub mod Spelled
