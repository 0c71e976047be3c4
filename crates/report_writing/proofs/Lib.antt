pub mod LineEndLemmas
pub mod ReportTextLemmas
