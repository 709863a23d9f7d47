pub mod Memory
pub mod Numbers
pub mod Quoting
pub mod Words
pub mod formers
