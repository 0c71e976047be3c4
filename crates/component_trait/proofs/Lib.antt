pub mod BoundLaws
pub mod FoldLaws
mod FollowLemmas
mod Logs
pub mod WantLaws
pub mod TableLaws
