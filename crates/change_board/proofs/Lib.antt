pub mod StepLaws
pub mod SightLaws
pub mod BearingLaws
mod DeedLemmas
