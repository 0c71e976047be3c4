pub mod CauseLaws
pub mod ChildCountLaws
pub mod IntegerLemmas
pub mod NamedLemmas
pub mod ReachedLemmas
pub mod ReachesLemmas
mod Rows
pub mod Sizes
pub mod SpineLemmas
pub mod TreeLaws
pub mod WalksLemmas
