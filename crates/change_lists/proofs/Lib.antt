pub mod LayoutLaws
pub mod ListingLaws
pub mod PlanInLaws
pub mod RangeLaws
mod StandLemmas
mod ListLemmas
mod ListLoops
mod LookupLemmas
