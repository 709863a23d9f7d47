pub mod NumberLemmas
pub mod QuotingLemmas
pub mod WordLemmas
