pub mod ItemLaws
pub mod PassivationLaws
mod Growing
mod CarryingLemmas
mod Passing
mod Scanning
mod Noting
mod Planning
mod Quieting
mod Beginning
mod EngineLemmas
mod StartLemmas
mod RunLemmas
mod ChangeLemmas
mod CommitRoom
mod PrepareLemmas
mod Rooting
mod StayingLemmas
mod LeavingLemmas
mod Breaking
