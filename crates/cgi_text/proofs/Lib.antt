pub mod HeadLemmas
pub mod PairLemmas
pub mod ParamLemmas
pub mod PassedLemmas
pub mod SectionLemmas
pub mod SizeLemmas
