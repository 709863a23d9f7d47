pub mod LineLemmas
pub mod FieldsLemmas
pub mod GrammarLemmas
pub mod StableLemmas
pub mod TakenLemmas
pub mod ReadLemmas
pub mod OrderLemmas
pub mod PortLemmas
pub mod HeadLemmas
pub mod EndLemmas
pub mod FramingLemmas
pub mod OptionLemmas
mod SharedLemmas
mod VersionLemmas
pub mod ScanLemmas
