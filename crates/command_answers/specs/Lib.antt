pub mod Answers
pub mod DescriptionFaults
pub mod PartTexts
pub mod RefusalLines
pub mod Statuses
pub mod Summaries
