pub mod AnswerLaws
pub mod ChangeLineLaws
pub mod CourseLaws
pub mod GraphLaws
pub mod LineLaws
pub mod RunLaws
pub mod ShownLaws
pub mod TotalityLaws
pub mod WayLaws
mod EachCommand
mod Existence
mod FewCreated
mod LaneLemmas
mod Leading
mod LineLemmas
mod MadeScripts
mod OneAnswer
mod OneRun
mod Planning
mod Prepared
mod Readings
mod ReportLemmas
mod Reported
mod Saying
mod TextLemmas
mod Wanting
