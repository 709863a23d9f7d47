pub mod ActLaws
pub mod Disks
pub mod FileLaws
pub mod SinkLaws
pub mod TextLaws
pub mod Traces
mod Slotted
mod Placing
mod Results
mod Ends
mod Naming
