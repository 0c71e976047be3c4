mod Calls
mod Changes
pub mod ComingLaws
mod Fetching
mod Fitting
mod Joining
pub mod KnowingLaws
mod Lines
mod Passing
mod PlannedLines
mod Planning
mod Preparations
mod Refusing
pub mod ReportingLaws
pub mod RunningLaws
