pub mod AskingLemmas
pub mod ReadingLemmas
pub mod FeedingLemmas
mod EndLemmas
mod HeadedLemmas
mod ContentLemmas
pub mod ResponseLemmas
mod JudgedLemmas
