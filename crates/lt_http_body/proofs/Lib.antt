mod Sizes
pub mod ReadingLemmas
pub mod FeedingLemmas
mod Answered
mod Moving
mod Printed
mod Refusing
mod Spelled
mod Stepping
mod Viable
mod Whole
