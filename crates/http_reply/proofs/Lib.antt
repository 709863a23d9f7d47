pub mod Examples
pub mod ReadingLemmas
