pub mod TextLines
pub mod Limits
pub mod ReportTexts
pub mod GraphFaults
pub mod GraphTexts
pub mod Stages
pub mod Rests
