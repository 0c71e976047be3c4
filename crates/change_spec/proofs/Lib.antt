mod Checking
pub mod ClosingLaws
mod ClosingLemmas
pub mod ConsistentLaws
mod FirstLemmas
pub mod FoundLaws
mod GraphLemmas
mod HandedLemmas
pub mod LowerLaws
pub mod MemberLaws
pub mod PlanningLaws
pub mod PortLaws
pub mod RunningLaws
pub mod SerialLaws
pub mod StandingLaws
pub mod StoodLaws
mod ShowingLemmas
mod StopLemmas
pub mod TestLaws
mod ToldLemmas
