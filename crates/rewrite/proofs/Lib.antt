pub mod Looping
pub mod EndLaws
pub mod Numbers
