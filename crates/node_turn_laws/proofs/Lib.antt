pub mod TurnLaws
pub mod AgreementLaws
pub mod MoveLaws
pub mod ReachedLaws
pub mod HintLaws
pub mod LookLaws
pub mod MovingLaws
mod PostLemmas
pub mod PostedLaws
mod RequestLemmas
pub mod RestLaws
mod StayingLemmas
pub mod StillLaws
