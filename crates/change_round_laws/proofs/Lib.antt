pub mod AloneLaws
pub mod AskedLaws
pub mod ClosedPortLaws
pub mod ClosingLaws
pub mod CommitGraphLaws
pub mod CourseLaws
pub mod EndingRoundLaws
pub mod EngagedLaws
pub mod ExistenceLaws
pub mod FoldLaws
mod GrowthLemmas
pub mod LineLaws
pub mod LookLaws
pub mod PlayLaws
pub mod RoundLaws
pub mod StatementLaws
pub mod PlanFoundLaws
mod BeginLemmas
mod CourseLemmas
mod StopLemmas
mod MoveLemmas
mod RoundLemmas
mod WaitLemmas
mod PartLemmas
mod RootLemmas
pub mod TogetherLaws
