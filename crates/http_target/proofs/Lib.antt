pub mod MarkLemmas
pub mod BadLemmas
pub mod SegmentLemmas
