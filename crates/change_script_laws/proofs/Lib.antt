pub mod FormLemmas
pub mod MarginLemmas
pub mod LineTextLemmas
pub mod FileLemmas
pub mod SegmentLemmas
pub mod NodePathLemmas
