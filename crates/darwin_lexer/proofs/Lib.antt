pub mod FrontLemmas
pub mod TokensLaws
pub mod SpellingLemmas
pub mod MeaningLemmas
pub mod OrderLemmas
