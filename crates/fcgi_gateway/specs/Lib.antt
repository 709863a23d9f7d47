pub mod Asked
pub mod Sending
pub mod Heard
pub mod Progress
pub mod Task
pub mod Inside
