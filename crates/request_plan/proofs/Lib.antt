pub mod Settling
pub mod Words
pub mod Finding
pub mod OpenedFiles
pub mod Sending
pub mod Turning
mod Slashes
