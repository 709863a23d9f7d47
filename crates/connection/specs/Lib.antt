pub mod Connection
pub mod Stages
pub mod Inside
pub mod Looking
pub mod Progress
