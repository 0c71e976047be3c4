pub mod BearingLaws
pub mod ConfigLaws
mod CountLemmas
pub mod EndLaws
pub mod FoldLaws
pub mod FollowLaws
pub mod GraphLaws
pub mod HearingLaws
mod HeirLemmas
mod ItemLemmas
mod JoiningLemmas
pub mod LawfulLaws
mod LineLemmas
mod LookLemmas
mod LookingLemmas
pub mod MadeLaws
pub mod MergeLaws
pub mod NumberLaws
pub mod OpenLaws
pub mod PendingLaws
pub mod RootLaws
pub mod RoomLaws
mod Still
mod Shown
mod SeenFolds
mod AtOnce
mod RestLaws
mod Resting
mod StaysLaws
mod EndFolds
mod EarlyLaws
mod WaitLemmas
