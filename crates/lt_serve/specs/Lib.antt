pub mod Finishes
pub mod Listening
pub mod Served
pub mod Serving
