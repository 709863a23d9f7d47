pub mod FeedingLemmas
mod Going
mod Held
mod Moving
mod Printed
pub mod ReadingLemmas
mod Said
mod Told
